-- What `read` does, that nothing else could satisfy its statement, and both round trips.
pub mod ReadLaws
pub mod Once
pub mod RoundTrips

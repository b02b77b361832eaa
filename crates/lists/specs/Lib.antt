-- What the contracts of `lists` cite.
pub mod Lists
pub mod Printed

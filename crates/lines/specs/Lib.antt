-- What the contracts of `lines` cite, and the printed form of a line.
pub mod Table
pub mod Read
pub mod Printed
pub mod Hold

-- What holds of any run at the desk.
pub mod SideChanges
pub mod DeskChanges
pub mod Steps
pub mod Safe

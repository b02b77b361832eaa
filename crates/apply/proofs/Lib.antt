-- Laws of what is held, and of what the buffers have room for.
pub mod HeldLaws
pub mod RoomLaws

pub mod Advance
pub mod Bodies
pub mod CarriedFacts
mod EventFacts
pub mod Fronts
pub mod LoadFacts
pub mod Named
mod PutFacts
mod Returns
mod Rooms

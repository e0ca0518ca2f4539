pub mod KnownLaws
pub mod ByteAtFault
pub mod Listing

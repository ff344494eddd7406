pub mod Commands
pub mod Ends
pub mod Folders
pub mod Generating
pub mod Laws
pub mod Listings
pub mod Outside
pub mod Seen

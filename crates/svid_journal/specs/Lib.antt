pub mod Titles
pub mod Frames
pub mod Reading
pub mod Folder
pub mod Disk
pub mod History
pub mod Promises
pub mod Payloads

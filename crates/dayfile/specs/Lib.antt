pub mod Accepted
pub mod Bytes
pub mod Layouts
pub mod Records
pub mod Scans
pub mod Structure

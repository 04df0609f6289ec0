pub mod Changes
pub mod FileZones
pub mod Meetings

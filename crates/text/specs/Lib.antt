pub mod Numbers
pub mod Lines
pub mod Texts
pub mod Replies
pub mod Readings
pub mod Cursors

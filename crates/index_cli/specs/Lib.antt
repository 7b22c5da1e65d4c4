-- Lines in, lines out, and connections.
pub mod Lines
pub mod Telling
pub mod LineCalls
pub mod Connections
pub mod Steps
pub mod Ends
pub mod Replies
pub mod Causes
pub mod Serving
pub mod Went
pub mod LinesWent
pub mod DeskAnswers
pub mod FilesServed
pub mod Waiting
pub mod InMemory
pub mod Printed

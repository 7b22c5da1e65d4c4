-- One connection over HTTP.
pub mod Printed
pub mod Sends
pub mod Steps
pub mod Statuses
pub mod Replies
pub mod PagePasses
pub mod Exchanges
pub mod Ends
pub mod Shows
pub mod Shown
pub mod PageShows
pub mod Asks
pub mod Hides
pub mod Apart

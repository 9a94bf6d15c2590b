pub mod Elements
pub mod Forms
pub mod Grouping
pub mod Heading
pub mod Marks
pub mod OpenLists
pub mod Queues

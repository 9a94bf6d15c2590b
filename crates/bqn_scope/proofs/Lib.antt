mod Samples
pub mod Spelling
pub mod Backward
pub mod Unstarted
pub mod Spots
pub mod Defining
pub mod Waiting
pub mod Slots
pub mod Binding
pub mod Bodies
pub mod Uses
pub mod Exporting
pub mod Program

-- The blocks of translated code: how many they are, where they stand and what is inside them.
pub mod BlockCounts
pub mod HaveBodies
pub mod Sizes
pub mod BlocksAndNames
pub mod CodeLengths
pub mod EveryBlock
pub mod BlockPlaces
pub mod BlockInstructions
pub mod Blocks

-- What is pooled: constants, names and patterns, and the instructions that name them.
pub mod GatheredNames
pub mod Items
pub mod GatheredItems
pub mod Growth
pub mod WellItems
pub mod SpelledItems
pub mod PooledItems
pub mod Passing
pub mod MentionedItems
pub mod CodePasses
pub mod HeldBodies
pub mod PatternCodes
pub mod PoolFacts
pub mod PoolTests
pub mod PoolExports
pub mod PoolLaws

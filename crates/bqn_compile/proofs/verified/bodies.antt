-- The bodies of translated code: their kinds, their classes and what their instructions push.
pub mod EveryBody
pub mod Instructions
pub mod ClassFacts
pub mod SpecialNames
pub mod BodyFits
pub mod WellBodies
pub mod BodyInstructions
pub mod Bodies

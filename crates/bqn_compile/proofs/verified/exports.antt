-- What the bodies of translated code export.
pub mod FewExports
pub mod Exported
pub mod ResolvedExports

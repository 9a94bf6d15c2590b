-- What the code of an expression and of a body leaves on the stack.
pub mod Stacks
pub mod BodyStacks

-- What this library promises.
pub mod Arena
pub mod Contract
pub mod Signs
pub mod Code
pub mod Leads
pub mod Parse
pub mod ParseLaws
pub mod Claims
pub mod Declarations
pub mod Expressions
pub mod TooDeep
pub mod Statements

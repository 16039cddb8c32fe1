-- Every definition open
pub mod All
-- The sixteen cases
pub mod Cases
-- Tables as lent
pub mod LentWorlds
pub mod Lent
pub mod LentMore

pub mod Decimal
pub mod Asked

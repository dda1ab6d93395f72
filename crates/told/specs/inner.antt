pub mod Answer
pub mod Lending

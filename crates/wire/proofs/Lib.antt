pub mod Numbers
pub mod Chains
pub mod Buffers
pub mod Zeros
pub mod ByteLists
pub mod Equal

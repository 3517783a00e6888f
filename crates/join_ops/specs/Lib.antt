pub mod KeySets
pub mod KeysIn
pub mod KeyMaps
pub mod KeysOf
pub mod Joins

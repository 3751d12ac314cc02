-- Laws on the tables of countries and the keys of switches.
pub mod LookupLaws
pub mod CountryLaws
pub mod MappedLaws
pub mod SettlingLaws
pub mod OwnLaws
pub mod OwnKeyLaws
pub mod KeyedLaws
pub mod PlacedLaws
pub mod TargetLaws
pub mod SwitchLaws

pub mod AttrLaws
pub mod Leading
pub mod ModLaws
pub mod NameLists

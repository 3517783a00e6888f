pub mod TableLaws
pub mod RowLaws
pub mod GroupingLaws
pub mod PieceLaws
pub mod PassLaws

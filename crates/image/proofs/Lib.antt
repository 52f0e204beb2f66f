pub mod FieldLaws
pub mod RowLaws
pub mod Sizes
pub mod TableLaws
pub mod ImageLaws
pub mod Loop
pub mod Texts
pub mod Wholes

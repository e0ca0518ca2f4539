pub mod Fronts
pub mod NumberLaws
pub mod Stops
pub mod ValueLaws
pub mod ColumnLaws
pub mod Spelling
pub mod SpelledNumbers
pub mod ListedLaws

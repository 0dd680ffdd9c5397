-- Laws that rest on a definition of specs/ by one another.
pub mod SearchLaws
pub mod ListLaws

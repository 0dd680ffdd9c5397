-- Lists, numbers and tests: what the rules are written with. Nothing of routing is in here.
-- The definitions that the rules are written with, and those that only the proofs of the code use.
pub mod Search
pub mod Fill
pub mod Fold
pub mod Renew
-- The laws.
pub mod Results
pub mod Tests
pub mod NumberLaws
pub mod SignedLaws
pub mod SearchLaws
pub mod Parts
pub mod ListLaws
pub mod FillLaws
pub mod RenewLaws
pub mod FoldLaws
pub mod RangeLaws

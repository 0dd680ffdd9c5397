pub mod Numbers
pub mod ProbeLaws

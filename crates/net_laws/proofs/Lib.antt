pub mod FrontLaws
pub mod FormLaws
pub mod RenamedRows

pub mod Laws
pub mod WholeTexts
pub mod Runs
pub mod Space
pub mod Ends

pub mod Writing
pub mod RuleTexts
pub mod LogTexts
pub mod Laws
pub mod Places

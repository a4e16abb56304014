pub mod NetAnswers
pub mod NetAnswersTerms
pub mod JudgeAnswers
pub mod JudgeAnswersTerms

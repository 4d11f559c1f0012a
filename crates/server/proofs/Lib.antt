mod AnswerLines
mod Brought
mod LogCalls
mod Steps
mod Verdicts

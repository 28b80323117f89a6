mod WordsAfterCommand
mod Examples

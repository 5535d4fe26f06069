mod Alone
mod CommandLine
mod Commands
mod Levels
mod Matches
mod Options
mod Rows
mod Uses

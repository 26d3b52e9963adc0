pub mod TerminalLaws

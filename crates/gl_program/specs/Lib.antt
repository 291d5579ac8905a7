pub mod ClassProgram
pub mod Program
pub mod ProgramCode
pub mod View

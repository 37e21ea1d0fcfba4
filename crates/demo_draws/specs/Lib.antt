pub mod Generator
pub mod DrawnPage
pub mod DrawnCommit
pub mod DatabaseCommit

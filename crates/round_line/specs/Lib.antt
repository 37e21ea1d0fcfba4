pub mod RoundText

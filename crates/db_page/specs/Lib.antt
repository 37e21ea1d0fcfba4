pub mod DatabaseHeader

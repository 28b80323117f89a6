pub mod BackingView

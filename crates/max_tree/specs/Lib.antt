pub mod MaxTree

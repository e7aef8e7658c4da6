pub mod RobinLaws

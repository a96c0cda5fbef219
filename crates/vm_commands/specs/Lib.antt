pub mod Physical

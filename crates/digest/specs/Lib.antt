pub mod Collision

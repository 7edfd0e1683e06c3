pub mod OneRequest

mod Hearing
mod Applying

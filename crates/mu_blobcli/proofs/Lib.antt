mod Places
mod Present
mod Begun

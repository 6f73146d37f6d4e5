mod Octets
mod Clearing
mod Raises

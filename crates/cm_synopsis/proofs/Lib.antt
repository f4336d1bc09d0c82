mod Ascii
mod Extents
mod Steps

mod NamesFixed
mod Keyed

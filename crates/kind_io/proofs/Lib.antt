mod Storing
mod Transfers

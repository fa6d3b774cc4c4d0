mod Doors
mod ValuesRead
